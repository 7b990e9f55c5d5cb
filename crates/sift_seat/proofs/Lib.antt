mod Boards
mod NewSeats
mod Seats
