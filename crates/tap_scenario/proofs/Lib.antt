mod Alike
mod Arrays
pub mod Bytes
mod Casts
mod Decimals
mod Keys
mod Members
pub mod Numbers
pub mod Options
mod OtherSettings
mod Pairs
mod PlainSteps
mod Scripts
mod Shapes
mod Spellings
pub mod Splits
pub mod StepTexts
