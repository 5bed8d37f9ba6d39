pub mod ReplaysMeaning
