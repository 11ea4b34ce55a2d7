-- Laws of images, each once: one step for each record, the newest of them, blocks held and shared, and the bytes.
pub mod Steps
pub mod Images
pub mod Held
pub mod Shared
pub mod ImageBytes
