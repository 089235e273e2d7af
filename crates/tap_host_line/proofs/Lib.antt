mod Hexes
mod Known
mod Members
mod Packets
mod Rooms
