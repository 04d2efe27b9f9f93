pub mod Tokens
pub mod Formulas
pub mod Machines
pub mod Printed
pub mod Unplaced
