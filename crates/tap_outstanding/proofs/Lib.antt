mod Sums
mod Towers
mod GrowingMarks
mod Lowering
mod Searching
mod Reserving
mod Flights
mod KeptMarks
