pub mod Sheet
pub mod Printed
pub mod SheetAgreement
pub mod SheetView
