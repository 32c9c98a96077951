pub mod Debts
