mod Worlds
mod Remarks
mod Marks
mod Nodes
mod Places
