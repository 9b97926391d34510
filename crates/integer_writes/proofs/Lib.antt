pub mod Laying
pub mod IntegerText
