pub mod Due
pub mod Pair
pub mod Pointers
pub mod Reconcile
