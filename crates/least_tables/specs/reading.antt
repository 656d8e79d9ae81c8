pub mod WorkLists
