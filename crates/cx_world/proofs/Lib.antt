mod Accesses
mod Changes
