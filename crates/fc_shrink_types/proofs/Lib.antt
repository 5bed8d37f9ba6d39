mod Judged
mod Rows
