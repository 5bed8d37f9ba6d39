mod Moved
mod Listed
mod Behind
mod BehindPoints
