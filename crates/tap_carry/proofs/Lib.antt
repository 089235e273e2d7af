mod Packets
mod Kept
mod Ways
mod Gaps
mod Arrivals
mod Awaits
