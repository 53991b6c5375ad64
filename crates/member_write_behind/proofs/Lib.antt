mod Puts
mod Tellings
mod Runs
