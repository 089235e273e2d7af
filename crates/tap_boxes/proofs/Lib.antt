mod Lookups
mod Gathered
mod KeptBoxes
