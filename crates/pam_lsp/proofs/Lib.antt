mod Appended
mod Codes
mod Firsts
mod Held
mod Items
mod Lines
mod Lists
