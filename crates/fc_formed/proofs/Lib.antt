pub mod WithWords
