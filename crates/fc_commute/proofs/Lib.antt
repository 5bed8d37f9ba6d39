mod Moved
mod Rows
