mod Seats
mod Sends
