mod Agreed
mod Cells
mod Clocks
mod Drawn
mod Words
