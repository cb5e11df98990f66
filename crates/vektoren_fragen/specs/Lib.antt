pub mod FileCase
