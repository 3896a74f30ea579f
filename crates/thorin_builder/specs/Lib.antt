pub mod StateView
pub mod Building
pub mod BuilderView
pub mod Missing
pub mod Taking
pub mod Reading
pub mod Repeated
pub mod RowsByIndex
