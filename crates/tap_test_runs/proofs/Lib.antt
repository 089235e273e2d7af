mod Lasts
mod Single
mod Small
