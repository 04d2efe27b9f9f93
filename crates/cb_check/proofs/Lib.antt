mod CheckSound
mod WalkSteps
