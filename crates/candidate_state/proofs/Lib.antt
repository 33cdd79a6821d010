mod Examples
mod Puts
mod ShownWords
