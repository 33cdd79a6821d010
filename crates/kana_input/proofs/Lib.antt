mod Examples
mod PlainKeys
mod Rooms
