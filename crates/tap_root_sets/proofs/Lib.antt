mod Walking
mod Refusing
mod Marking
mod Asking
