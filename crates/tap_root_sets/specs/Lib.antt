pub mod AskedRoots
