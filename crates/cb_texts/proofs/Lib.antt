pub mod SameTables
