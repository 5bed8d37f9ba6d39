pub mod SetMeaning
