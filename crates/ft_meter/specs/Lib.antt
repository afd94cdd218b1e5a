pub mod Budgets
