mod Filled
mod Firsts
mod Lists
mod Names
