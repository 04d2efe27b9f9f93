mod Certs
mod Tables
