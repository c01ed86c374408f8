mod FamilySteps
