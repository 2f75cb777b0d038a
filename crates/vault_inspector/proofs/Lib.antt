mod Written
mod Counting
mod Heads
mod Choices
mod Reports
mod Weighing
mod Greatest
