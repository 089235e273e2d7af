mod Known
mod Numbers
mod Rows
mod Walks
mod Ends
mod Plain
