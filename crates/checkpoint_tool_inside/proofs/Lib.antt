mod Answered
mod Lines
mod Told
mod Words
