mod CallSteps
mod Examples
mod Placing
