pub mod ChangesKeepMeaning
pub mod DeadDefinitions
pub mod FairTold
pub mod ModulesKeepMeaning
pub mod OnePlaceTyped
pub mod ShownFurther
