mod Spans
mod Together
