pub mod Ankuendigung
