-- PutText: for put_number and the functions above it.
pub mod PutText
