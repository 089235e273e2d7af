mod Flushing
mod Texts
mod Left
mod Consumed
mod Causes
