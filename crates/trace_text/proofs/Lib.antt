mod Names
mod Lists
mod Pairs
mod LineTexts
mod NoFloats
mod Again
