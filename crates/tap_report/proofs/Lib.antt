pub mod WritesLemmas
mod PrintsLemmas
pub mod DecimalLemmas
pub mod TextLemmas
mod HeadLemmas
mod PairsLemmas
mod DepartedLemmas
mod TallyLemmas
pub mod ReportsLemmas
pub mod PiecewiseLemmas
