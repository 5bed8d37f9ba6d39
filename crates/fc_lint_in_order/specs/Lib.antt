pub mod BuildOrder
