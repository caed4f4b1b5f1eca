pub mod Search
mod Adding
mod Lists
mod Count
mod RoundRobin
mod Refusals
mod Agreement
mod WrongConsoles
