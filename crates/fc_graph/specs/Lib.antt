pub mod Certificates
pub mod FindingsView
pub mod Graphs
