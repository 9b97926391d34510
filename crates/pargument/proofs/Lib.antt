pub mod IntegerLaws
pub mod Laying
pub mod Masks
