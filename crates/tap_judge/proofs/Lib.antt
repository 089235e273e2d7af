mod Expecting
mod Sizes
mod Scripts
mod Leaving
mod Verdicts
mod Players
mod PrintedTexts
mod Causes
