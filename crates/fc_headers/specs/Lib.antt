pub mod NamelessHeaders
