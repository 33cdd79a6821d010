mod Examples
mod KnownBytes
mod PiecesLeft
mod Shelves
