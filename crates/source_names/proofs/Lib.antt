mod PathCalls
mod Reading
mod TagLists
