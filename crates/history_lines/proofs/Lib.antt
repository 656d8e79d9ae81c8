-- The text of a history with one event more (OneMore).
mod OneMore
