pub mod Returning
pub mod Seating
pub mod SeatsTaken
pub mod Sides
pub mod Turning
