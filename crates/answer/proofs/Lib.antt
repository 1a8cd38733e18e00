-- Laws of answers.
pub mod Refusing
