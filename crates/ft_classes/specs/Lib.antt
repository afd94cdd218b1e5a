pub mod CounterVerdicts
